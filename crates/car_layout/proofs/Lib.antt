mod ScanLemmas
mod TableLemmas
mod GroupLemmas
