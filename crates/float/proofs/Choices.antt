-- `lesser` and `greater` by the two tests that the code makes.
use Rattle.std.proofs.Common.{◌≡◌, Bool, true, false, cond, not, ◌||◌, T, sym, refl, ap}
use lib.Ieee.{Float, nan, inf, fin, lt, eq, ne, is_nan}
use lib.Ieee.Compare.{differs_from_itself}
use Rattle.float.specs.Helpers.{lesser, greater}
use Rattle.float.proofs.Signs.{yes, clash}

is_nan_lem : (x : Float) → ne x x ≡ true → is_nan x ≡ true
unfolding is_nan
is_nan_lem x h = ap is_nan (differs_from_itself x (yes h))

-- the code's choice is the definition's: the second at a NaN or where the test t is true, and otherwise the first
second : (p t : Bool) (a b : Float) → t ≡ true → b ≡ cond (p || t) b a
second true t a b h = refl
second false true a b h = refl
second false false a b h = clash refl (sym h)

first : (a b : Float) (t : Bool) → ne a a ≡ false → t ≡ false → a ≡ cond (is_nan a || t) b a
unfolding ne is_nan
first nan b t h k = clash refl h
first (inf s) b t h k = rw k
first (fin s m e) b t h k = rw k

pub lesser_other : (a b : Float) → ne a a ≡ true → b ≡ lesser a b
unfolding lesser
lesser_other a b h = rw (is_nan_lem a h)

pub greater_other : (a b : Float) → ne a a ≡ true → b ≡ greater a b
unfolding greater
greater_other a b h = rw (is_nan_lem a h)

pub lesser_second : (a b : Float) → lt b a ≡ true → b ≡ lesser a b
unfolding lesser
lesser_second a b h = second (is_nan a) (lt b a) a b h

pub greater_second : (a b : Float) → lt a b ≡ true → b ≡ greater a b
unfolding greater
greater_second a b h = second (is_nan a) (lt a b) a b h

pub lesser_first : (a b : Float) → ne a a ≡ false → lt b a ≡ false → a ≡ lesser a b
unfolding lesser
lesser_first a b h k = first a b (lt b a) h k

pub greater_first : (a b : Float) → ne a a ≡ false → lt a b ≡ false → a ≡ greater a b
unfolding greater
greater_first a b h k = first a b (lt a b) h k

pub a_number : (x : Float) → eq x x ≡ true → T (not (is_nan x))
unfolding eq is_nan
a_number nan h = clash h refl
a_number (inf s) h = tt
a_number (fin s m e) h = tt
