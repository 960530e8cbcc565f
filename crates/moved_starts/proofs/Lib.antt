mod MoveLemmas
