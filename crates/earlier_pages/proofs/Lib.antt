mod StreamLaws
