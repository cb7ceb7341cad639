-- How many numbers bear a mark (Counts), where a number stands (Stands), a table with one place moved in flight (Moves), with places freed (Frees) and
-- with other times (Again); the chunks, one packet more and a row of packets (Submitting..); and what others cite: which numbers expire (Expired) and
-- the laws of the calls (Starts, Submitting, SubmittingReads, Sends, Acks, Resends, Fetches).
pub mod Counts
pub mod Stands
pub mod Moves
pub mod Frees
pub mod Again
pub mod Expired
pub mod Starts
pub mod SubmittingTables
pub mod SubmittingRules
pub mod SubmittingStep
pub mod SubmittingChunks
pub mod SubmittingStored
pub mod Submitting
pub mod SubmittingReads
pub mod Sends
pub mod Acks
pub mod Resends
pub mod Fetches
