pub mod Counting
pub mod Lengths
pub mod Leads
pub mod Answers
pub mod Firsts
