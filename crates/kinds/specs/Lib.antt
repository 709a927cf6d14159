pub mod Laws
pub mod Catalogue
pub mod CatalogueLaws
