-- What the pass over a record finds, against the definitions of the pass and the reading of the record.
pub mod Survey
