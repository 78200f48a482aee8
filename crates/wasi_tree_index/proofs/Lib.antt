mod HeadLemmas
pub mod FrontLemmas
pub mod EntryLemmas
pub mod ListLemmas
pub mod KeyLemmas
pub mod RowLemmas
pub mod BlockLemmas
pub mod SplitLemmas
pub mod NamesLemmas
pub mod RunLemmas
pub mod ShiftLemmas
pub mod OverLemmas
pub mod MergeLemmas
