pub mod ExtentLies
