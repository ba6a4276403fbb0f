-- Each arm is an arm of `level`.
use mathlib.Core.Path.{sym}
use native.Mathlib.Omega.{arith}
use Rattle.text.specs.Skipping.{level}
use Rattle.text.proofs.Laws.Skipping.Bytes.{level_other}
use borrow.Author.Rules.{rules}
use Rattle.text.proofs.walk.open_past.Goals as goal

pub bounds-s-i : goal.bounds-s-i
bounds-s-i c = c.requires.inside

pub overflow_add-result : goal.overflow_add-result
overflow_add-result c = search rules

pub overflow_sub-result : goal.overflow_sub-result
overflow_sub-result c = omega arith

pub overflow_add-result-in-123 : goal.overflow_add-result-in-123
overflow_add-result-in-123 c = search rules

pub overflow_sub-result-in-125 : goal.overflow_sub-result-in-125
overflow_sub-result-in-125 c = omega arith

pub returns-in-91 : goal.returns-in-91
unfolding level
returns-in-91 c = rw c.in-91.is

pub returns-in-93 : goal.returns-in-93
unfolding level
returns-in-93 c = rw c.in-93.is

pub returns-in-123 : goal.returns-in-123
unfolding level
returns-in-123 c = rw c.in-123.is

pub returns-in-125 : goal.returns-in-125
unfolding level
returns-in-125 c = rw c.in-125.is

pub returns-in_default : goal.returns-in_default
returns-in_default c =
    sym (level_other _ _ c.in_default.in_default-own.rest.0.0.0.1 c.in_default.in_default-own.rest.0.1 c.in_default.in_default-own.rest.0.0.1 c.in_default.in_default-own.rest.1)
