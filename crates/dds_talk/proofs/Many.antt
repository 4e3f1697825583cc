use Rattle.std.proofs.Common.{◌≡◌, Bool, true, false, List, [], ◌∷◌, ◌++◌, sym, subst, append_assoc}
use Rattle.std.proofs.lemmas.List.{append-nil}
use Rattle.dds_talk.proofs.Moves.{MaySay, Takes, library-takes, may-say}
use Rattle.dds_talk.proofs.Sure.{sure-takes}
use Rattle.dds_talk.specs.Parts.{Sure}
use Rattle.dds_talk.specs.Table.{View, Ask, Say, At, Talks, IsTalk}
use Rattle.dds_talk.specs.Table.Talks.{live, lost}
use Rattle.dds_talk.specs.Table.IsTalk.{unknowing, knowing}

-- A library's moves one after another, where a letter is heard at the first at most.

pub data Many : View → List Say → View → List Ask → Type 0 where
  none : {v : View} → Many v [] v []
  more : {v v' w : View} {x : List Say} {y ys : List Ask} → Takes v x v' y → Many v' [] w ys → Many v x w (y ++ ys)

pub single : {v v' : View} {x : List Say} {y : List Ask} → Takes v x v' y → Many v x v' y
single {v = v} {v' = v'} {x = x} {y = y} t = subst (Many v x v') (append-nil y) (more t none)

pub many-then : {v v' w : View} {x : List Say} {y ys : List Ask} → Many v x v' y → Takes v' [] w ys → Many v x w (y ++ ys)
many-then none t = single t
many-then {v = v} {w = w} {x = x} {ys = zs} (more {y = y} {ys = ys} t h) u = subst (Many v x w) (sym (append_assoc y ys zs)) (more t (many-then h u))

many-live : {ml : Bool} {v w : View} {x : List Say} {y : List Ask} {o : List Ask} {s : At} {b : List Say} → Many v x w y → Talks true ml v o s (x ++ b)
    → Talks true ml w (o ++ y) s b
many-live {ml = ml} {v = v} {o = o} {s = s} {b = b} none h = subst (λ q. Talks true ml v q s b) (sym (append-nil o)) h
many-live {ml = ml} {w = w} {o = o} {s = s} {b = b} (more {y = y} {ys = ys} t m) h =
    subst (λ q. Talks true ml w q s b) (append_assoc o y ys) (many-live m (library-takes t h))

-- a conversation of a live library
pub many-is : {ml k : Bool} {v w : View} {x : List Say} {y : List Ask} {o p : List Ask} {s : At} {b q : List Say} → k ≡ false → Many v x w y → q ≡ x ++ b
    → p ≡ o ++ y → IsTalk true ml k v o s q → IsTalk true ml k w p s b
many-is {ml = ml} {v = v} {w = w} {o = o} {s = s} {b = b} e m f g (unknowing h) =
    subst (λ u. IsTalk true ml false w u s b) (sym g) (unknowing (many-live m (subst (λ u. Talks true ml v o s u) f h)))
many-is e m f g (knowing h) = cc

-- what is sure stays so
pub many-sure : {v w : View} {x : List Say} {y : List Ask} (o : List Ask) (a : At) → Many v x w y → Sure true v o a → Sure true w (o ++ y) a
many-sure {v = v} o a none s = subst (λ q. Sure true v q a) (sym (append-nil o)) s
many-sure {w = w} o a (more {y = y} {ys = ys} t m) s = subst (λ q. Sure true w q a) (append_assoc o y ys) (many-sure (o ++ y) a m (sure-takes o a t s))

-- what a member may say
says-talks : {ml : Bool} {v : View} {o : List Ask} {s : At} (y : Say) (b : List Say) → Talks true ml v o s (y ∷ b) → MaySay v y
says-talks y b (live h) = may-say h
says-talks y b (lost cut h) = may-say h

pub says-is : {ml k : Bool} {v : View} {o : List Ask} {s : At} {q : List Say} (y : Say) (b : List Say) → k ≡ false → q ≡ y ∷ b → IsTalk true ml k v o s q
    → MaySay v y
says-is {ml = ml} {v = v} {o = o} {s = s} y b e f (unknowing h) = says-talks y b (subst (λ w. Talks true ml v o s w) f h)
says-is y b e f (knowing h) = cc
