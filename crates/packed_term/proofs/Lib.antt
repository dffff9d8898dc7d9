mod FormLaws
mod SizeLaws
mod TupleLaws
