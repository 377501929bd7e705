mod EntryLemmas
mod Fronts
