mod RatioLemmas
mod RowLemmas
mod KeyLemmas
mod SumLemmas
mod OutputLemmas
mod InputLemmas
mod RunLemmas
