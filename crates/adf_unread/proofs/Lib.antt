-- the steps, and what stays
pub mod DroppedImages
-- runs of marks
pub mod UnreadRuns
