mod AskLemmas
mod SortedLemmas
mod CountLemmas
mod SubjectLemmas
mod EntryLemmas
mod ReportLemmas
mod RunLemmas
