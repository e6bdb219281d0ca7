mod WithinLemmas
