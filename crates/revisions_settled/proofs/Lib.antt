pub mod MergedBy
