-- What the answer where a frame begins says of the head that the rules read there.
use mathlib.Core.Path.{◌≡◌, ap}
use mathlib.Core.List.{List}
use Prim.Native.Nat.{ℕ}
use Rattle.std.specs.Prelude.{Result, Ok, Err, IfOk}
use Rattle.std.specs.Borrow.{Bor}
use Rattle.std.specs.Result.{result_map_both}
use Rattle.std.proofs.lemmas.Result.{IfOk-at_ok}
use Rattle.rules.specs.Outcome.{refused, got}
use Rattle.rules.specs.Walk.{header}
use Rattle.rules.specs.Parts.{head_at}
use Rattle.book.specs.Book.{refusal, answered}
use Rattle.book.specs.declared.Refusal.{Refusal}
use Rattle.blocks.specs.BlockAnswers.{plain_head}
use Rattle.blocks.specs.declared.Head.{Head}
use Rattle.blocks.specs.declared.frame.Frame.{Frame}
use Rattle.cursor.proofs.Heads.{begins_fault, begins_block}

module _ (s : Bor (List ℕ)) (ln : ℕ) (r : Result Frame Refusal) where
  -- Its head alone, or its refusal.
  abbrev head_of : Result Frame Refusal → Result Head Refusal
  head_of = result_map_both (λ f. f.head) (λ x. x)

  abbrev Of : Frame → Type 0
  Of f = (f.bytes ≡ s) × (f.line ≡ ln)

  module _ (e : head_of r ≡ answered plain_head (header ln 0 s.now)) where
    pub frame_refused : (x : Refusal) → r ≡ Err x → (x ≡ refusal 2 ln 0) × (header ln 0 s.now ≡ refused 2 ln 0)
    frame_refused x q = begins_fault s.now ln 0 (head_of r) e x (ap head_of q)

    pub frame_begins : IfOk r Of → (f : Frame) → r ≡ Ok f → Of f × (header ln 0 s.now ≡ got (head_at f.head.tag f.head.len s.now))
    frame_begins o f q = (IfOk-at_ok Of q o, (begins_block s.now ln 0 (head_of r) e f.head (ap head_of q)).1)
