mod BrokenCases
mod WorkedBoxes
mod WorkedChoice
mod WorkedPrices
