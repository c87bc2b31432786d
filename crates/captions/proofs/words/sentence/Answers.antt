-- `captions::words::sentence` meets its contract, number by number.
use Rattle.std.proofs.Common.{rules}
use Rattle.captions.specs.Captions.{sentence, one_of}
use Rattle.captions.proofs.Tests.{sentence_none}
use Rattle.captions.proofs.words.sentence.Goals as goal

pub returns-in-1 : goal.returns-in-1
unfolding sentence one_of
returns-in-1 c = rw c.in-1.is

pub returns-in-4 : goal.returns-in-4
unfolding sentence one_of
returns-in-4 c = rw c.in-4.is

pub returns-in-6 : goal.returns-in-6
unfolding sentence one_of
returns-in-6 c = rw c.in-6.is

pub returns-in-7 : goal.returns-in-7
unfolding sentence one_of
returns-in-7 c = rw c.in-7.is

pub returns-in-10 : goal.returns-in-10
unfolding sentence one_of
returns-in-10 c = rw c.in-10.is

pub returns-in-11 : goal.returns-in-11
unfolding sentence one_of
returns-in-11 c = rw c.in-11.is

pub returns-in-21 : goal.returns-in-21
unfolding sentence one_of
returns-in-21 c = rw c.in-21.is

pub returns-in_default : goal.returns-in_default
returns-in_default c = search (rules, sentence_none)
