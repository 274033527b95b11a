mod CellLemmas
mod PlacedLemmas
mod CountedLemmas
mod PackLemmas
mod KeptLemmas
mod CarryLemmas
