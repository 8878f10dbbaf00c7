pub mod WorkedCases
pub mod WorkedDay
