mod PieceLemmas
mod LineLemmas
mod PageLemmas
