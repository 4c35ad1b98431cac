pub mod AskedLemmas
pub mod ExchangeLemmas
pub mod ListLemmas
pub mod RefusedLemmas
pub mod ReportLemmas
pub mod TransferLemmas
