mod HandedLaws
