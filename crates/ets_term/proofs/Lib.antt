pub mod ElementLaws
pub mod FnvLaws
pub mod Joined
pub mod DataListLaws
pub mod DataLists
pub mod Texts
