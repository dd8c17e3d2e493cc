mod Bytes
mod EventTexts
mod Clipping
