mod Rounds
mod Saying
mod TwoParts
mod AlternativeReading
mod CertificateReading
pub mod WholeReading
mod CertificateFaults
mod PlainLines
pub mod Meaning
pub mod ShortTexts
