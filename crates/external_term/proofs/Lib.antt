pub mod Digits
pub mod Encoded
mod Examples
pub mod IdentifierTrips
pub mod LeafTrips
pub mod Pairs
pub mod RoundTrip
pub mod EncodedTerms
pub mod SentPieces
pub mod SmallIntegers
pub mod BytesAt
pub mod Steps
mod WrittenExamples
