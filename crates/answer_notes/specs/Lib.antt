pub mod RobotsAnswers
pub mod Received
pub mod HopChains
pub mod CrawlDelays
