pub mod ChangeLaws
pub mod FolderLaws
pub mod PartLaws
pub mod ShelfLaws
pub mod SiteFilesLaws
