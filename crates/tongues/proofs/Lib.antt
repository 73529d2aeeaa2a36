mod TextLemmas
mod WordExamples
