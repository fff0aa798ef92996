-- Texts, whose numbers are written in digits.
use Rattle.std.proofs.Common.{refl}
use Rattle.std.specs.Fmt.{digits}
use Rattle.mv_why.specs.Texts.{FeeText, DefinerText, HolderText, TurnText, KeyText}

pub fee : FeeText
unfolding digits
fee = refl

pub definer : DefinerText
unfolding digits
definer = refl

pub holder : HolderText
unfolding digits
holder = refl

pub turn : TurnText
unfolding digits
turn = refl

pub key : KeyText
unfolding digits
key = refl
