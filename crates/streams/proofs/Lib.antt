mod BytesLemmas
mod LineCuts
mod ServeLemmas
