mod EarlierLaws
