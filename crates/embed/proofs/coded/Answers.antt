use mathlib.Core.Path.{sym, ap}
use Rattle.meaning.specs.Pointer.{pointer}
use Rattle.embed.proofs.Faces.{no_code}
use Rattle.embed.proofs.coded.Goals as goal

pub returns-in-2 : goal.returns-in-2
returns-in-2 c = λ used place p f. ap (λ n. pointer n used place p f) (sym c.in-2.is)

pub returns-in-3 : goal.returns-in-3
returns-in-3 c = λ used place p f. ap (λ n. pointer n used place p f) (sym c.in-3.is)

pub returns-in-4 : goal.returns-in-4
returns-in-4 c = λ used place p f. ap (λ n. pointer n used place p f) (sym c.in-4.is)

pub returns-in-6 : goal.returns-in-6
returns-in-6 c = λ used place p f. ap (λ n. pointer n used place p f) (sym c.in-6.is)

pub returns-in-7 : goal.returns-in-7
returns-in-7 c = λ used place p f. ap (λ n. pointer n used place p f) (sym c.in-7.is)

pub returns-in_default : goal.returns-in_default
returns-in_default c =
    let q = c.in_default.in_default-own.rest in
    no_code _ q.0.0.0.0.1 q.0.0.0.1 q.0.0.1 q.0.1 q.1
