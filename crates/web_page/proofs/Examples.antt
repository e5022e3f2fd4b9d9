-- Worked examples, computed from the definitions: request targets with and without a part of the
-- web page.
use Rattle.std.proofs.Common.{◌≡◌, Some, None, refl, codes}
use Rattle.web_page.specs.Parts.{part_of}
use Rattle.web_page.specs.declared.parts.PagePart.TheVariants.{Page, Style, Script, Icon}

the_page : part_of (codes "/") ≡ Some Page
the_page = refl

the_style : part_of (codes "/page.css") ≡ Some Style
the_style = refl

the_script : part_of (codes "/page.js") ≡ Some Script
the_script = refl

the_icon : part_of (codes "/icon.svg") ≡ Some Icon
the_icon = refl

no_target : part_of (codes "") ≡ None
no_target = refl

a_target_in_other_case : part_of (codes "/Page.js") ≡ None
a_target_in_other_case = refl

a_target_with_a_query : part_of (codes "/?") ≡ None
a_target_with_a_query = refl

a_target_after_it : part_of (codes "/page.js/") ≡ None
a_target_after_it = refl

a_file_that_has_another_target : part_of (codes "/page.html") ≡ None
a_file_that_has_another_target = refl
