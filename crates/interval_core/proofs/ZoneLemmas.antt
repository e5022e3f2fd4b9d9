-- The text of a POSIX rule determines the UTC offsets of the time zone that it describes.
use Rattle.std.proofs.Common.{◌≡◌, ℕ, Bool, true, false, Option, Some, None, List, sym, ap, ◌∙◌, unwrap_or}
use Rattle.std.specs.Prelude.{ℤ, pos, ◌+ℤ◌, ◌*ℤ◌, cond}
use Rattle.std.specs.Int.{int_div_euclid}
use Rattle.std.specs.Option.{option_map}
use Rattle.jiff_core.specs.declared.Offset.{Offset}
use Rattle.jiff_tz.specs.declared.posix.DayTime.{DayTime}
use Rattle.jiff_tz.specs.declared.posix.Dst.{Dst}
use Rattle.jiff_tz.specs.declared.timezone.TimeZone.{TimeZone}
use Rattle.jiff_tz.specs.declared.timezone.TimeZone.TheVariants.{UTC, Unknown, Fixed, Posix, Tzif}
use Rattle.jiff_tz.specs.PosixRule.{rule_nanos, utc_window, in_window, dst_at_by, match_some}
use Rattle.jiff_tz.specs.PosixText.{TzText, DstText, tz_view, dst_view}
use Rattle.jiff_tz.specs.Year.{year_of_nanos}
use Rattle.jiff_tz.specs.Zone.{offset_at}
use Rattle.jiff.specs.Placed.{IsPosixZone}
use Rattle.jiff.specs.Words.{plain_zone}
use Rattle.interval_core.specs.declared.zone.Zone.{Zone}
use Rattle.interval_core.specs.Zone.{HasRule, rule_of, day_at}

moments-same : (y : ℤ) (d e : DayTime) (s t : ℤ) → d.date ≡ e.date → d.time ≡ e.time → s ≡ t → rule_nanos y d s ≡ rule_nanos y e t
unfolding rule_nanos
moments-same y d e s t date time seconds = rw (date, time, seconds)

windows-same : (d e : Dst) (y : ℤ) (s t : Offset) → dst_view d ≡ dst_view e → s.seconds ≡ t.seconds → utc_window d y s ≡ utc_window e y t
unfolding utc_window
windows-same d e y s t same seconds =
    let start : rule_nanos y d.rule.start s.seconds ≡ rule_nanos y e.rule.start t.seconds =
    moments-same y d.rule.start e.rule.start s.seconds t.seconds (ap (λ (v : DstText). v.start.0) same) (ap (λ (v : DstText). v.start.1) same) seconds in
    let finish : rule_nanos y d.rule.end d.offset.seconds ≡ rule_nanos y e.rule.end e.offset.seconds =
    moments-same y d.rule.end e.rule.end d.offset.seconds e.offset.seconds (ap (λ (v : DstText). v.finish.0) same) (ap (λ (v : DstText). v.finish.1) same)
    (ap (λ (v : DstText). v.seconds) same) in
    rw (start, finish, seconds)

picked-same : (b c : Bool) (d e : Dst) (s t : Offset) → b ≡ c → d.offset.seconds ≡ e.offset.seconds → s.seconds ≡ t.seconds
    → (match_some (cond b (Some d) None) s (λ (x : Dst). x.offset)).seconds ≡ (match_some (cond c (Some e) None) t (λ (x : Dst). x.offset)).seconds
picked-same true true d e s t same summer standard = summer
picked-same false false d e s t same summer standard = standard
picked-same true false d e s t same summer standard = cc
picked-same false true d e s t same summer standard = cc

seconds-same : (s t : Offset) (p q : Option Dst) (n : ℤ) → s.seconds ≡ t.seconds → option_map dst_view p ≡ option_map dst_view q
    → (match_some (dst_at_by s p n) s (λ (x : Dst). x.offset)).seconds ≡ (match_some (dst_at_by t q n) t (λ (x : Dst). x.offset)).seconds
seconds-same s t None None n standard same = standard
seconds-same s t None (Some e) n standard same = cc
seconds-same s t (Some d) None n standard same = cc
seconds-same s t (Some d) (Some e) n standard same =
    let view : dst_view d ≡ dst_view e = ap (λ (o : Option DstText). unwrap_or o (dst_view d)) same in
    let window = windows-same d e (year_of_nanos n) s t view standard in
    picked-same (in_window (utc_window d (year_of_nanos n) s) n) (in_window (utc_window e (year_of_nanos n) t) n) d e s t
    (ap (λ w. in_window w n) window) (ap (λ (v : DstText). v.seconds) view) standard

offsets-same : (text : List ℕ) (a b : TimeZone) (n : ℤ) → IsPosixZone text a → IsPosixZone text b → offset_at a n ≡ offset_at b n
unfolding offset_at
offsets-same text (Posix a) (Posix b) n left right =
    let same : tz_view a ≡ tz_view b = ap (λ (o : Option TzText). unwrap_or o (tz_view a)) (sym left ∙ right) in
    seconds-same a.std_offset b.std_offset a.dst b.dst n (ap (λ (v : TzText). v.std_seconds) same) (ap (λ (v : TzText). v.dst) same)
offsets-same text (Posix a) UTC n left right = absurd right
offsets-same text (Posix a) Unknown n left right = absurd right
offsets-same text (Posix a) (Fixed o) n left right = absurd right
offsets-same text (Posix a) (Tzif z) n left right = absurd right
offsets-same text UTC b n left right = absurd left
offsets-same text Unknown b n left right = absurd left
offsets-same text (Fixed o) b n left right = absurd left
offsets-same text (Tzif z) b n left right = absurd left

pub same_days : (text : List ℕ) (a b : Zone) → HasRule text a → HasRule text b → (moment : ℕ) → day_at a moment ≡ day_at b moment
same_days text a b left right moment =
    ap (λ (seconds : ℤ). int_div_euclid (pos moment +ℤ seconds) (pos 86_400))
    (offsets-same text (plain_zone (rule_of a)) (plain_zone (rule_of b)) (pos moment *ℤ pos 1_000_000_000) left right)
