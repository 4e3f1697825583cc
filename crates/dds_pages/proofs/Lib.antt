pub mod Numbers
pub mod RootPages
pub mod PairPages
pub mod Exact
pub mod ExactPages
pub mod ReadBack
