use Rattle.std.proofs.Common.{arith}
use Rattle.anti_lang.proofs.parser.body_of.Goals as goal

pub returns-in_err-line : goal.returns-in_err-line
returns-in_err-line c = grind arith

pub returns-in-Some : goal.returns-in-Some
returns-in-Some c = grind arith

pub returns-in-Some-variable_fault : goal.returns-in-Some-variable_fault
returns-in-Some-variable_fault c = grind arith

pub same-lines : goal.same-lines
same-lines c = grind arith

pub returns-in_err-build : goal.returns-in_err-build
returns-in_err-build c = grind arith

pub returns : goal.returns
returns c = grind arith
