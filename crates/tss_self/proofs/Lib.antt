mod WorkloadLemmas
pub mod ReportLemmas
