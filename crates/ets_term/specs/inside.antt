pub mod AtomTexts
