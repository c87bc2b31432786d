pub mod JobList
