use Rattle.std.proofs.Common.{◌≡◌, ◌∙◌, ◌∷◌, ◌-◌, [], ℕ, List, Some, inl, inr, ap, sym, subst, drop, length}
use Rattle.std.specs.Prelude.{leb, ◌&&◌}
use Rattle.std.specs.Str.{IsAscii}
use Rattle.std.proofs.lemmas.Bool.{cases_Bool}
use Rattle.std.proofs.lemmas.Option.{same_Some}
use Rattle.std.proofs.lemmas.Str.{IsAscii-drop, IsAscii-take, IsUtf8-from_ascii}
use Rattle.matchit.specs.Params.{part_of, walk}
use Rattle.office_http.specs.Messages.Routing.Routes.{head_value}
use Rattle.office_http.proofs.messages.routing.targets.first_value.Goals as goal

-- A slice of an ASCII text is an ASCII text.
part-ascii : (bytes : List ℕ) (start end : ℕ) → IsAscii bytes → IsAscii (part_of bytes start end)
part-ascii bytes start end h = elim (cases_Bool (leb start end && leb end (length bytes))) [
  | inl e ↦ rw e (IsAscii-take (drop start bytes) (end - start) (IsAscii-drop bytes start h))
  | inr n ↦ rw n (IsAscii-take bytes 0 h)
]

value-ascii : (pattern text path : List ℕ) (names : List (ℕ × ℕ)) (v : List ℕ) → IsAscii path → head_value (walk pattern text path names 0 0) ≡ Some v → IsAscii v
value-ascii pattern text path [] v h e = cc e
value-ascii pattern text path (name ∷ rest) v h e = subst (λ (x : List ℕ). IsAscii x) (same_Some _ _ e) (part-ascii path _ _ h)

pub returns-in-Some : goal.returns-in-Some
returns-in-Some c =
    let (x, e, _, shows) = c.in-Some.ensures.steps in
    let p = c.args.params.now in
    let head : head_value (walk p.pattern.now p.text.now p.path.now p.names.now 0 0) ≡ Some x.1 = ap head_value (sym c.iter-values.ensures.value ∙ e) in
    let ascii = value-ascii p.pattern.now p.text.now p.path.now p.names.now x.1 c.requires head in
    ap (λ (s : List ℕ). Some s) (shows (IsUtf8-from_ascii x.1 ascii)) ∙ sym head
