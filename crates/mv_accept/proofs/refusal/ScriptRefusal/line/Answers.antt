use Rattle.std.proofs.Common.{refl}
use Rattle.std.specs.Prelude.{codes}
use Rattle.mv_csvio.proofs.Values.{all_printable}
use Rattle.mv_accept.proofs.refusal.ScriptRefusal.line.Goals as goal

pub numbered-requires-in-Syntax : goal.numbered-requires-in-Syntax
numbered-requires-in-Syntax c = all_printable (codes "refused 4 syntax at token ") refl

pub numbered-requires-in-UnknownName : goal.numbered-requires-in-UnknownName
numbered-requires-in-UnknownName c = all_printable (codes "refused 6 unknown name at token ") refl

pub numbered-requires-in-DoubleName : goal.numbered-requires-in-DoubleName
numbered-requires-in-DoubleName c = all_printable (codes "refused 7 double name at token ") refl

pub numbered-requires-in-WrongType : goal.numbered-requires-in-WrongType
numbered-requires-in-WrongType c = all_printable (codes "refused 8 wrong type at token ") refl

pub numbered-requires-in-KeyAssigned : goal.numbered-requires-in-KeyAssigned
numbered-requires-in-KeyAssigned c = all_printable (codes "refused 9 key assigned at token ") refl

pub numbered-requires-in-Writes : goal.numbered-requires-in-Writes
numbered-requires-in-Writes c = all_printable (codes "refused 24 write at token ") refl
