pub mod FewColumns
