pub mod BlockCall
