mod CountLists
mod Sums
mod Texts
mod Kept
mod DefaultTexts
mod ToldExamples
mod Digits
