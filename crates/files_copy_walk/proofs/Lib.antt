pub mod EntriesCopied
