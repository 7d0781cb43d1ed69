pub mod HeadingsFound
