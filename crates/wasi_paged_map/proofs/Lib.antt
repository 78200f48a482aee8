mod EntryLemmas
mod FirstLemmas
mod SetLemmas
