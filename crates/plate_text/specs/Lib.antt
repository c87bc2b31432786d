pub mod PaveText
