use Rattle.lines.proofs.Digits.{numbers_are_digits}
use Rattle.lines.proofs.Readings.{one_reading, one_answer}
use Rattle.lines.proofs.reader.read.Goals as goal

pub returns-in_err-mark-clause-one_reading : goal.returns-in_err-mark-clause-one_reading
returns-in_err-mark-clause-one_reading c = one_reading

pub returns-in_err-mark-clause-one_answer : goal.returns-in_err-mark-clause-one_answer
returns-in_err-mark-clause-one_answer c = one_answer

pub returns-in_err-mark-clause-numbers_are_digits : goal.returns-in_err-mark-clause-numbers_are_digits
returns-in_err-mark-clause-numbers_are_digits c = numbers_are_digits

pub returns-clause-one_reading : goal.returns-clause-one_reading
returns-clause-one_reading c = one_reading

pub returns-clause-one_answer : goal.returns-clause-one_answer
returns-clause-one_answer c = one_answer

pub returns-clause-numbers_are_digits : goal.returns-clause-numbers_are_digits
returns-clause-numbers_are_digits c = numbers_are_digits
