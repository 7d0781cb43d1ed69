pub mod FactsBack
