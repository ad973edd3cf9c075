pub mod SheetBytes
