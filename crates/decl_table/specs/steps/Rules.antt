-- What may not be said of one name, by first sayings: the rules of `Exclusions` with `least` for "or" and `with` for "and".
use Rattle.std.specs.Prelude.{ℕ, Bool, if◌then◌else◌, Option}
use Rattle.decl_table.specs.declared.firsts.Firsts.{Firsts}
use Rattle.decl_table.specs.steps.Firsts.{least, with}

abbrev pub argument : Firsts → Option ℕ
argument f = least f.dummy f.answer

abbrev pub outside : Firsts → Option ℕ
outside f = least (least f.external f.intrinsic) f.body

abbrev pub declares : Firsts → Option ℕ
declares f =
    let named = least (least (argument f) f.inside) (outside f) in
    let kept = least (least (least (least named f.typed) f.bounded) f.parameter) f.saved in least (least (least kept f.intent) f.member) f.tied

abbrev pub not_argument : Firsts → Option ℕ
not_argument f = least (least (least (least (least (least f.parameter f.saved) f.initial) f.external) f.intrinsic) f.member) f.tied

abbrev pub not_constant : Firsts → Option ℕ
not_constant f = least (least (least f.saved f.intent) f.member) f.tied

abbrev pub not_procedure : Firsts → Option ℕ
not_procedure f = least (least (least (least (least f.bounded f.saved) f.parameter) f.initial) f.member) f.tied

abbrev pub bare_member : Bool → Firsts → Option ℕ
bare_member block_data f = if block_data then f.blank else f.member

abbrev pub alike : Firsts → Firsts → Option ℕ
alike e o = least (least (with e.typed o.typed) (with e.bounded o.bounded)) (with e.valued o.valued)

abbrev pub twice_before : Firsts → Firsts → Option ℕ
twice_before e o =
    let kinds = least (with e.inside (declares o)) (with e.body (argument o)) in
    least (least (with e.dummy (argument o)) kinds) (with e.intrinsic (least o.external o.body))

abbrev pub twice_after : Firsts → Firsts → Option ℕ
twice_after e o =
    let kinds = least (with (declares e) o.inside) (with (argument e) o.body) in
    least (least (with (argument e) o.dummy) kinds) (with (least e.external e.body) o.intrinsic)

abbrev pub twice : Firsts → Firsts → Option ℕ
twice e o = least (alike e o) (least (twice_before e o) (twice_after e o))

abbrev pub excluding : Bool → Firsts → Firsts → Option ℕ
excluding block_data e o =
    let members = least (with e.member o.saved) (with (bare_member block_data e) o.initial) in
    let variables = least (least (with (argument e) (not_argument o)) (with e.parameter (not_constant o))) members in
    least (least variables (with (outside e) (not_procedure o))) (with e.public o.private)

abbrev pub excluded : Bool → Firsts → Firsts → Option ℕ
excluded block_data e o =
    let members = least (with e.saved o.member) (with e.initial (bare_member block_data o)) in
    let variables = least (least (with (not_argument e) (argument o)) (with (not_constant e) o.parameter)) members in
    least (least variables (with (not_procedure e) (outside o))) (with e.private o.public)

abbrev pub conflicting : Bool → Firsts → Firsts → Option ℕ
conflicting block_data e o = least (least (excluding block_data e o) (excluded block_data e o)) (with e.member o.member)
