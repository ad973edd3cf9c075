pub mod QuoteOutput
